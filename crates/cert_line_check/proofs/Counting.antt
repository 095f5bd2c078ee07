-- Counting visits block by block, once for each class.
use Rattle.std.proofs.Common.{◌≡◌, refl, sym, ap, subst, ◌∙◌, ℕ, zero, suc, ◌+◌, ◌-◌, ◌<◌, ◌≤◌, ◌^◌, Bool, true, false, List, [], length, get_or, set, replicate, Some, Result, Ok, Err, arith, inl, inr, ⊎_elim}
use Rattle.std.specs.Prelude.{All, IfOk}
use Rattle.std.proofs.Math.Nat.{min-le_left, min-eq_left, min-eq_right}
use Rattle.std.proofs.lemmas.Bool.{cases_lt, cases_eq, true≢false}
use Rattle.std.proofs.lemmas.List.{get_or-set_same, get_or-set_other, get_or-replicate, length-replicate}
use Rattle.bp_theory.specs.Blocking.{Copy, Block, Blocking}
use Rattle.bp_theory.specs.Cuts.{cut_rows}
use Rattle.bp_theory.specs.Decomposition.{blocking_of}
use Rattle.bp_theory.specs.declared.Row.{Row}
use Rattle.bp_theory.specs.Trees.{IsZone, IsSubspan}
use Rattle.bp_theory.proofs.ZipLaws.{AllZip-length}
use Rattle.bp_theory.proofs.DecompositionProof.{decomposition_lem}
use Rattle.bp_theory.proofs.CutProof.{cuts_are_met_lem}
use Rattle.block_program.specs.Blocked.{BlockedProgram, IsFormed}
use Rattle.bp_theory.specs.Bound.{is_picked}
use Rattle.bp_theory.specs.declared.Span.{Span}
use Rattle.bp_theory.specs.declared.Picked.{Picked}
use Rattle.bp_theory.specs.declared.Picked.TheVariants.{These}
use Rattle.search_laws.specs.Spread.{class_at}
use Rattle.block_class.specs.Classes.{Grouping, AreSameClasses}
use Rattle.cert_line_check.specs.Visits.{IsLowestPicked, searched, spared, AreBlockVisits}
use Rattle.cert_line_check.specs.Counting.{cut_off, AreCutPrefixes, IsCutBlock, AreCutBelow, AreCutVisits, IsDifference, IsSeen, AreSeen}
use Rattle.cert_line_check.specs.Judging.{IsSpentOn}
use Rattle.cert_line_check.specs.declared.visits.Spent.{Spent}
use Rattle.cert_line_check.specs.declared.visits.Spent.TheVariants.{Within, Exceeding}

-- ---- numbers that are cut off

short : (n : ℕ) → n ≤ 2 ^ 127 → cut_off n ≡ n
short n h = min-eq_left h

long : (n : ℕ) → 2 ^ 127 ≤ n → cut_off n ≡ 2 ^ 127
long n h = min-eq_right h

-- a number below 2 to the 64 tells of a number that is cut off what it tells of the number
pub exceeded : (left n visits : ℕ) → visits ≡ cut_off n → left < visits → left < n
exceeded left n visits is h = let less : cut_off n ≤ n = min-le_left n (2 ^ 127) in omega (arith, is, h, less)

pub afforded : (left n visits : ℕ) → left < 2 ^ 64 → visits ≡ cut_off n → visits ≤ left → n + (left - visits) ≡ left
afforded left n visits small is h = ⊎_elim
    (λ less. let same = short n (omega (arith, less)) in omega (arith, is, h, same))
    (λ more. let same = long n more in absurd (omega (arith, is, h, same, small)))
    (cases_lt n (2 ^ 127))

pub cut_both : (a m b n sum : ℕ) → a ≡ cut_off m → b ≡ cut_off n → sum ≡ cut_off (a + b) → sum ≡ cut_off (m + n)
cut_both a m b n sum a_is b_is sum_is = ⊎_elim
    (λ small. ⊎_elim
    (λ low. let e = short m (omega (arith, small)) in let f = short n (omega (arith, low)) in
    let same : a + b ≡ m + n = omega (arith, a_is, b_is, e, f) in sum_is ∙ ap cut_off same)
    (λ high. let f = long n high in
    let whole = long (a + b) (omega (arith, b_is, f)) in
    let all = long (m + n) (omega (arith, high)) in sum_is ∙ whole ∙ sym all)
    (cases_lt n (2 ^ 127)))
    (λ high. let e = long m high in
    let whole = long (a + b) (omega (arith, a_is, e)) in
    let all = long (m + n) (omega (arith, high)) in sum_is ∙ whole ∙ sym all)
    (cases_lt m (2 ^ 127))

none_cut : 0 ≡ cut_off 0
none_cut = sym (short 0 (omega arith))

-- ---- blocks in zones

-- the copies of a block name variables of a zone
pub copies_there : (b : BlockedProgram) (zone : List Span) (k : ℕ) (block : Block) → IsFormed b → IsZone b.named.program.spans zone → k < length b.blocking.blocks
    → ((d : Block) → block ≡ get_or b.blocking.blocks k d) → All (λ (c : Copy). c.var < length zone) block.copies
copies_there b zone k block formed in_root there is =
    let n : ℕ = length b.named.program.spans in
    let none : Block = record { copies = []; rows = [] } in
    let cuts : List Row = cut_rows b.named.program b.dec [] b.cuts in
    let known : All (λ (j : Block). All (λ (c : Copy). c.var < n) j.copies) (blocking_of b.named.program b.dec cuts).blocks =
    (decomposition_lem.adds_up b.named.program b.dec cuts formed.kept.closed (cuts_are_met_lem.closed b.named.program b.dec b.cuts)).known in
    let all : All (λ (j : Block). All (λ (c : Copy). c.var < n) j.copies) b.blocking.blocks =
    subst (λ (x : Blocking). All (λ (j : Block). All (λ (c : Copy). c.var < n) j.copies) x.blocks) (sym formed.blocking) known in
    let here : All (λ (c : Copy). c.var < n) block.copies = subst (λ (j : Block). All (λ (c : Copy). c.var < n) j.copies) (sym (is none)) (all k none there) in
    subst (λ (m : ℕ). All (λ (c : Copy). c.var < m) block.copies) (sym (AllZip-length IsSubspan zone b.named.program.spans in_root.inside)) here

-- ---- what is spent

pub spent_on : (root : List Span) (b : Blocking) (zone : List Span) (picked : Picked) (left cut : ℕ) (spent : Spent) → AreCutVisits root b zone picked cut
    → ((n : ℕ) → cut ≡ cut_off n → IsDifference left n spent) → IsSpentOn root b zone picked (Some left) spent
spent_on root b zone picked left cut (Within now) visits difference =
    let rest = difference visits.0 visits.2 in
    (visits.0, rest.0, visits.1, rest.1, rest.2)
spent_on root b zone picked left cut Exceeding visits difference = (visits.0, visits.1, difference visits.0 visits.2)

-- ---- a proof that picks nothing

pub nothing_visited : (root : List Span) (b : Blocking) (zone : List Span) (k : ℕ) → AreBlockVisits root b zone (These []) k 0
nothing_visited root b zone zero = refl
nothing_visited root b zone (suc k) = (
  0,
  0,
  nothing_visited root b zone k,
  spared (λ s. true≢false (sym s.lowest.own)) refl,
  refl,
)

pub nothing_cut : (root : List Span) (b : Blocking) (zone : List Span) (picked : Picked) → picked ≡ These [] → AreCutVisits root b zone picked 0
nothing_cut root b zone picked is =
    subst (λ (p : Picked). AreCutVisits root b zone p 0) (sym is) (0, nothing_visited root b zone (length b.blocks), none_cut)

-- ---- blocks in order

pub no_blocks : (root : List Span) (b : Blocking) (zone : List Span) (picked : Picked) → AreCutBelow root b zone picked 0 0
no_blocks root b zone picked = (0, refl, none_cut)

pub one_block_more : (root : List Span) (b : Blocking) (zone : List Span) (picked : Picked) (k a c sum : ℕ) → AreCutBelow root b zone picked k a
    → IsCutBlock root b zone picked k c → sum ≡ cut_off (a + c) → AreCutBelow root b zone picked (k + 1) sum
one_block_more root b zone picked k a c sum below own is =
    let next : suc k ≡ k + 1 = omega arith in
    subst (λ j. AreCutBelow root b zone picked j sum) next
    (below.0 + own.0, (below.0, own.0, below.1, own.1, refl), cut_both a below.0 c own.0 sum below.2 own.2 is)

pub none_seen : (classes firsts : List ℕ) (picked : Picked) (seen : List Bool) (n : ℕ) → n ≡ length firsts → seen ≡ replicate n false
    → AreSeen classes firsts picked 0 seen
none_seen classes firsts picked seen n many is = record {
  each = ap (λ (bs : List Bool). length bs) is ∙ length-replicate n false ∙ many;
  known = λ class there. subst (IsSeen classes picked 0 class)
      (sym (ap (λ (bs : List Bool). get_or bs class false) is ∙ get_or-replicate n class false false (omega (arith, there, many))))
      (λ j less e own. absurd (omega (arith, less)));
}

-- one block more, which is of no class that isn't seen
seen_more : (classes : List ℕ) (picked : Picked) (k class : ℕ) (s : Bool) → (is_picked picked k ≡ true → class_at classes k ≡ class → s ≡ true)
    → IsSeen classes picked k class s → IsSeen classes picked (k + 1) class s
seen_more classes picked k class true h seen = (seen.0, omega (arith, seen.1), seen.2, seen.3)
seen_more classes picked k class false h seen = λ j less e own. ⊎_elim
    (λ before. seen j before e own)
    (λ behind. let same : j ≡ k = omega (arith, less, behind) in
    true≢false (sym (h (subst (λ i. is_picked picked i ≡ true) same own) (subst (λ i. class_at classes i ≡ class) same e))))
    (cases_lt j k)

-- a block that isn't picked
pub unpicked_block : (root : List Span) (b : Blocking) (zone : List Span) (picked : Picked) (k : ℕ) → is_picked picked k ≡ false → IsCutBlock root b zone picked k 0
unpicked_block root b zone picked k other = (0, spared (λ s. true≢false (sym s.lowest.own ∙ other)) refl, none_cut)

pub unpicked_seen : (classes firsts : List ℕ) (picked : Picked) (k : ℕ) (seen : List Bool) → is_picked picked k ≡ false → AreSeen classes firsts picked k seen
    → AreSeen classes firsts picked (k + 1) seen
unpicked_seen classes firsts picked k seen other had = record {
  each = had.each;
  known = λ class there. seen_more classes picked k class (get_or seen class false) (λ own e. absurd (true≢false (sym own ∙ other))) (had.known class there);
}

-- a picked block of whose class one was seen
abbrev pub HasSeenOne : (classes : List ℕ) → Picked → (k : ℕ) → Type 0
HasSeenOne classes picked k = IsSeen classes picked k (class_at classes k) true

pub seen_block : (root : List Span) (b : Blocking) (zone : List Span) (picked : Picked) (g : Grouping) (k : ℕ) → AreSameClasses zone b g → k < length b.blocks
    → HasSeenOne g.classes picked k → IsCutBlock root b zone picked k 0
seen_block root b zone picked g k all there seen = (
  0,
  spared (λ s. s.lowest.lowest seen.0 seen.1 seen.3 ((all.same seen.0 k (omega (arith, seen.1, there)) there).0 seen.2)) refl,
  none_cut,
)

pub was_seen : (classes firsts : List ℕ) (picked : Picked) (k class : ℕ) (seen : List Bool) (s : Bool) → AreSeen classes firsts picked k seen → class ≡ class_at classes k
    → class < length firsts → s ≡ get_or seen class false → IsSeen classes picked k (class_at classes k) s
was_seen classes firsts picked k class seen s had is there s_is =
    subst (λ c. IsSeen classes picked k c s) is (subst (IsSeen classes picked k class) (sym s_is) (had.known class there))

pub seen_still : (classes firsts : List ℕ) (picked : Picked) (k class : ℕ) (seen : List Bool) → AreSeen classes firsts picked k seen → class ≡ class_at classes k
    → true ≡ get_or seen class false → AreSeen classes firsts picked (k + 1) seen
seen_still classes firsts picked k class seen had is true_is = record {
  each = had.each;
  known = λ c there. seen_more classes picked k c (get_or seen c false)
      (λ own e. sym (true_is ∙ ap (λ n. get_or seen n false) (is ∙ e))) (had.known c there);
}

-- the first picked block of its class
pub first_block : {E : Type 0} (root : List Span) (b : Blocking) (zone : List Span) (picked : Picked) (g : Grouping) (k : ℕ) (r : Result ℕ E) → AreSameClasses zone b g
    → k < length b.blocks → is_picked picked k ≡ true → IsSeen g.classes picked k (class_at g.classes k) false
    → IfOk r (AreCutPrefixes root b zone k) → IfOk r (IsCutBlock root b zone picked k)
first_block root b zone picked g k (Err e) all there own unseen prefixes = tt
first_block root b zone picked g k (Ok cut) all there own unseen found = by found
  where
    lowest : IsLowestPicked b zone picked k
    lowest = record {
      own = own;
      lowest = λ j less mine same. unseen j less ((all.same j k (omega (arith, less, there)) there).1 same) mine;
    }

    by : AreCutPrefixes root b zone k cut → IsCutBlock root b zone picked k cut
    by (inl taken) = (0, spared (λ s. s.no_table taken.0) refl, taken.1 ∙ none_cut)
    by (inr free) = (_, searched (record { lowest = lowest; no_table = free.0 }) refl, free.1)

pub seen_now : (classes firsts : List ℕ) (picked : Picked) (k class : ℕ) (seen now : List Bool) → AreSeen classes firsts picked k seen → class ≡ class_at classes k
    → class < length firsts → is_picked picked k ≡ true → now ≡ set seen class true → length now ≡ length seen → AreSeen classes firsts picked (k + 1) now
seen_now classes firsts picked k class seen now had is there own now_is each = record {
  each = each ∙ had.each;
  known = λ c inside. subst (λ (bs : List Bool). IsSeen classes picked (k + 1) c (get_or bs c false)) (sym now_is) (⊎_elim
      (λ same. subst (λ n. IsSeen classes picked (k + 1) n (get_or (set seen class true) n false)) (sym same)
      (subst (IsSeen classes picked (k + 1) class) (sym (get_or-set_same seen class true false (omega (arith, there, had.each))))
      (k, omega arith, sym is, own)))
      (λ other. subst (IsSeen classes picked (k + 1) c) (sym (get_or-set_other seen class c true false other))
      (seen_more classes picked k c (get_or seen c false) (λ mine e. absurd (other (sym (is ∙ e)))) (had.known c inside)))
      (cases_eq c class));
}
