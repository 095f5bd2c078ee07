-- How far the changes between two lists of multipliers are found.
use Rattle.std.proofs.Common.{◌≡◌, ◌∙◌, ℕ, zero, suc, ◌+◌, List, [], ◌∷◌, ◌++◌, length, take, drop, ℤ, sym, ap, refl, arith, append_assoc, append-nil, length-append}
use Rattle.open_nodes.specs.Changes.{replay, placed, passed, Starts}
use Rattle.open_nodes.specs.declared.changes.Change.{Change}

-- what is made is followed by what the further changes make of what is kept and left
pub record IsScript (had now : List (ℕ × ℤ)) (changes : List Change) (keep : ℕ) (old new : List (ℕ × ℤ)) : Type 0 where
  pub made : List (ℕ × ℤ)
  pub kept : List (ℕ × ℤ)
  pub long : length kept ≡ keep
  pub now_is : made ++ (kept ++ new) ≡ now
  pub replays : (more : List Change) → replay had (changes ++ more) ≡ made ++ replay (kept ++ old) more

pub script_begins : (had now : List (ℕ × ℤ)) (changes : List Change) → changes ≡ [] → IsScript had now changes 0 had now
script_begins had now changes none = record {
  made = [];
  kept = [];
  long = refl;
  now_is = refl;
  replays = λ more. ap (λ (l : List Change). replay had (l ++ more)) none;
}

pub script_keeps : (had now : List (ℕ × ℤ)) (changes : List Change) (keep more : ℕ) (old new before rest : List (ℕ × ℤ)) → IsScript had now changes keep old new
    → Starts old new before rest → more ≡ keep + 1 → IsScript had now changes more before rest
script_keeps had now changes keep more old new before rest s start count = record {
  made = s.made;
  kept = s.kept ++ start.pair ∷ [];
  long = let l = length-append s.kept (start.pair ∷ []) in omega (arith, l, s.long, count);
  now_is = ap (λ (l : List (ℕ × ℤ)). s.made ++ l) (append_assoc s.kept (start.pair ∷ []) rest ∙ ap (λ (l : List (ℕ × ℤ)). s.kept ++ l) (sym start.new_is)) ∙ s.now_is;
  replays = λ others. s.replays others
      ∙ ap (λ (l : List (ℕ × ℤ)). s.made ++ replay l others)
      (ap (λ (l : List (ℕ × ℤ)). s.kept ++ l) start.old_is ∙ sym (append_assoc s.kept (start.pair ∷ []) before));
}

take_front : (n : ℕ) (a b : List (ℕ × ℤ)) → length a ≡ n → take n (a ++ b) ≡ a
take_front zero [] b e = refl
take_front zero (x ∷ a) b e = absurd (omega (arith, e))
take_front (suc n) [] b e = absurd (omega (arith, e))
take_front (suc n) (x ∷ a) b e = ap (λ (l : List (ℕ × ℤ)). x ∷ l) (take_front n a b (omega (arith, e)))

drop_front : (n : ℕ) (a b : List (ℕ × ℤ)) → length a ≡ n → drop n (a ++ b) ≡ b
drop_front zero [] b e = refl
drop_front zero (x ∷ a) b e = absurd (omega (arith, e))
drop_front (suc n) [] b e = absurd (omega (arith, e))
drop_front (suc n) (x ∷ a) b e = drop_front n a b (omega (arith, e))

pub script_changes : (had now : List (ℕ × ℤ)) (changes more : List Change) (keep : ℕ) (old new before rest : List (ℕ × ℤ)) (c : Change) → IsScript had now changes keep old new
    → more ≡ changes ++ c ∷ [] → c.keep ≡ keep → new ≡ placed c ++ rest → before ≡ passed c old → IsScript had now more 0 before rest
script_changes had now changes more keep old new before rest c s one at new_is old_is = record {
  made = s.made ++ (s.kept ++ placed c);
  kept = [];
  long = refl;
  now_is =
      append_assoc s.made (s.kept ++ placed c) rest
      ∙ ap (λ (l : List (ℕ × ℤ)). s.made ++ l) (append_assoc s.kept (placed c) rest ∙ ap (λ (l : List (ℕ × ℤ)). s.kept ++ l) (sym new_is))
      ∙ s.now_is;
  replays = λ others. ap (λ (l : List Change). replay had (l ++ others)) one ∙ ap (replay had) (append_assoc changes (c ∷ []) others)
      ∙ s.replays (c ∷ others) ∙ ap (λ (l : List (ℕ × ℤ)). s.made ++ l) (here others)
      ∙ sym (append_assoc s.made (s.kept ++ placed c) (replay before others));
}
  where
    far : length s.kept ≡ c.keep
    far = s.long ∙ sym at

    here : (others : List Change) → replay (s.kept ++ old) (c ∷ others) ≡ (s.kept ++ placed c) ++ replay before others
    here others =
        ap (λ (l : List (ℕ × ℤ)). l ++ (placed c ++ replay (passed c (drop c.keep (s.kept ++ old))) others)) (take_front c.keep s.kept old far)
        ∙ ap (λ (l : List (ℕ × ℤ)). s.kept ++ (placed c ++ replay (passed c l) others)) (drop_front c.keep s.kept old far)
        ∙ ap (λ (l : List (ℕ × ℤ)). s.kept ++ (placed c ++ replay l others)) (sym old_is)
        ∙ sym (append_assoc s.kept (placed c) (replay before others))

pub script_ends : (had now : List (ℕ × ℤ)) (changes : List Change) (keep : ℕ) (old new : List (ℕ × ℤ)) → IsScript had now changes keep old new
    → old ≡ [] → new ≡ [] → replay had changes ≡ now
script_ends had now changes keep old new s none none_new =
    ap (replay had) (sym (append-nil changes)) ∙ s.replays []
    ∙ ap (λ (l : List (ℕ × ℤ)). s.made ++ (s.kept ++ l)) (none ∙ sym none_new) ∙ s.now_is
