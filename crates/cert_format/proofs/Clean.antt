-- Numbers, tokens and lines without a fault.
use Rattle.std.proofs.Common.{◌≡◌, ◌≢◌, refl, ℕ, ◌+◌, ◌-◌, ◌<◌, ◌≤◌, ◌^◌, Bool, true, false, not, ◌&&◌, List, [], ◌∷◌, ◌++◌, length, codes, None, sym, arith}
use Rattle.std.proofs.Math.IntN.{ℤ, pos}
use Rattle.std.specs.Prelude.{nat_lt, nat_le, unsigned_abs}
use Rattle.std.specs.Cmp.{signed_Decides}
use Rattle.std.specs.Ordering.{int_eq}
use Rattle.std.proofs.lemmas.Bool.{lt-ltb, le-ltb, le-leb, true≢false}
use Rattle.bp_theory.specs.Limits.{greatest_depth}
use Rattle.cert_format.specs.Cert as texts
use Rattle.cert_format.specs.Text.{Kind, Token, Words, LineEnd, Version, first_kind, is_deep, is_past, value_fault, row_fault, multiplier_fault, block_fault, scale_fault, variable_fault, claim_lines, cut_lines, tree_lines, tokens_of}
use Rattle.cert_format.specs.Fault.{AreClean}
use Rattle.cert_format.specs.declared.fault.CertKind.TheVariants.{TooLarge, Number, Depth}
use Rattle.cert_format.proofs.Meaning.{clean_front}

-- ---- numbers

pub two_none : (a b : Bool) (k l : Kind) → a ≡ false → b ≡ false → first_kind ((a, k) ∷ (b, l) ∷ []) ≡ None
two_none true b k l p q = absurd (true≢false p)
two_none false true k l p q = absurd (true≢false q)
two_none false false k l p q = refl

pub one_none : (a : Bool) (k : Kind) → a ≡ false → first_kind ((a, k) ∷ []) ≡ None
one_none true k p = absurd (true≢false p)
one_none false k p = refl

pub none_by_both : (a b : Bool) (k : Kind) → a ≡ true → b ≡ true → first_kind ((not (a && b), k) ∷ []) ≡ None
none_by_both true true k p q = refl
none_by_both true false k p q = absurd (true≢false (sym q))
none_by_both false b k p q = absurd (true≢false (sym p))

pub two_none_both : (a b c : Bool) (k l : Kind) → a ≡ false → b ≡ true → c ≡ true → first_kind ((a, k) ∷ (not (b && c), l) ∷ []) ≡ None
two_none_both true b c k l p q r = absurd (true≢false p)
two_none_both false b c k l p q r = none_by_both b c l q r

pub is_small_value : (z : ℤ) → unsigned_abs z < 2 ^ 62 → is_past (2 ^ 62 - 1) z ≡ false
is_small_value z small = le-ltb (2 ^ 62 - 1) (unsigned_abs z) (omega arith)

pub small_value : (z : ℤ) → unsigned_abs z < 2 ^ 62 → value_fault z ≡ None
small_value z small = one_none (is_past (2 ^ 62 - 1) z) TooLarge (is_small_value z small)

pub small_scale : (frame : texts.Frame) (above s : ℕ) → above ≤ greatest_depth frame.limits → s ≤ 2 ^ 20 → scale_fault frame above s ≡ None
small_scale frame above s shallow small =
    two_none (is_deep frame.limits above) (nat_lt (2 ^ 20) s) Depth TooLarge (le-ltb (greatest_depth frame.limits) above shallow) (le-ltb (2 ^ 20) s small)

pub named_row : (named : ℕ → Bool) (last row : ℕ) → last < row → named row ≡ true → row_fault named last row ≡ None
named_row named last row up is = none_by_both (nat_lt last row) (named row) Number (lt-ltb last row up) is

pub small_multiplier : (row : ℕ) (p : ℤ) → unsigned_abs p ≤ 2 ^ 40 → p ≢ pos 0 → multiplier_fault (2 ^ 40) [] row p ≡ None
small_multiplier row p small some = two_none (is_past (2 ^ 40) p) (int_eq p (pos 0)) TooLarge Number (le-ltb (2 ^ 40) (unsigned_abs p) small) (by (int_eq p (pos 0)) refl)
  where
    by : (t : Bool) → int_eq p (pos 0) ≡ t → t ≡ false
    by true is = absurd (some ((signed_Decides p (pos 0)).0 is))
    by false is = refl

pub known_block : (frame : texts.Frame) (last k : ℕ) → last < k → k ≤ frame.blocks → block_fault frame last k ≡ None
known_block frame last k up there = none_by_both (nat_lt last k) (nat_le k frame.blocks) Number (lt-ltb last k up) (le-leb k frame.blocks there)

pub known_variable : (frame : texts.Frame) (above v : ℕ) → above ≤ greatest_depth frame.limits → v < frame.variables → variable_fault frame above (v + 1) ≡ None
known_variable frame above v shallow there =
    two_none_both (is_deep frame.limits above) (nat_lt 0 (v + 1)) (nat_le (v + 1) frame.variables) Depth Number (le-ltb (greatest_depth frame.limits) above shallow) (lt-ltb 0 (v + 1) (omega arith)) (le-leb (v + 1) frame.variables (omega arith))

-- ---- lists

pub clean_both : (u v : List Token) → AreClean u → AreClean v → AreClean (u ++ v)
clean_both [] v h g = g
clean_both (x ∷ u) v h g = (h.0, clean_both u v h.1 g)

-- the claim of a faultless certificate
pub claim_clean : (frame : texts.Frame) (version : Version) (c : texts.Cert) → AreClean (tokens_of frame version c) → AreClean (claim_lines frame c.claim)
claim_clean frame version c clean =
    let claim = claim_lines frame c.claim in
    let cuts = cut_lines frame 0 c.cuts in
    let tree = tree_lines frame version (length c.cuts) 0 [] c.tree in
    let end : List Token = Words (codes "end") ∷ LineEnd None ∷ [] in
    clean_front claim cuts (clean_front (claim ++ cuts) tree (clean_front ((claim ++ cuts) ++ tree) end clean.1.1.1))
