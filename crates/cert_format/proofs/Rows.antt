-- Worked certificates, computed.
use Rattle.std.proofs.Common.{◌≡◌, ℕ, true, false, List, [], ◌∷◌, codes, Some, ℤ, pos, negsuc, refl, rules, arith, take, drop}
use Rattle.bp_theory.specs.declared.Limits.TheVariants.{Usual}
use Rattle.cert_format.specs.Cert.{Every, These, Shut, Split, Optimal, Infeasible, Cert, Frame}
use Rattle.cert_format.specs.declared.fault.CertKind.TheVariants.{Number}
use Rattle.cert_format.specs.Text.{One, Two, Three, Figure, numeral, digits_before, tokens_of, text_of, meant}
use Rattle.cert_format.specs.Fault.{AreClean, HasFaultyToken}

-- a model of two variables and two master rows, without decomposition
abbrev small : Frame
small = record { variables = 2; rows = 2; is_master = λ _. true; links = 0; blocks = 2; limits = Usual }

abbrev one_leaf : ℕ → List (ℕ × ℤ) → Cert
one_leaf scale pairs = record { claim = Optimal (pos 8) (pos 2 ∷ pos 1 ∷ []); cuts = []; tree = Shut (record { scale = scale; pairs = pairs; picked = These [] }) }

-- the text of one leaf
row_text : text_of (tokens_of small One (one_leaf 5 ((1, negsuc 6) ∷ (2, negsuc 0) ∷ []))) ≡ codes "bpcert 1\nclaim optimal 8\npoint 2 1\nleaf 5 rows 2 1 -7 2 -1 priced 0\nend\n"
unfolding numeral digits_before
row_text = refl

-- it has no fault
row_clean : AreClean (tokens_of small One (one_leaf 5 ((1, negsuc 6) ∷ (2, negsuc 0) ∷ [])))
row_clean = search rules

-- a fault: the second row doesn't ascend
rows_fault : HasFaultyToken small (codes "bpcert 1\nclaim optimal 8\npoint 2 1\nleaf 5 rows 2 2 -1 1 -7 priced 0\nend\n") 4 Number
unfolding numeral digits_before
rows_fault =
    let written : Cert = one_leaf 5 ((2, negsuc 0) ∷ (1, negsuc 6) ∷ []) in
    record {
      version = One;
      written = written;
      form = refl;
      before = take 22 (tokens_of small One written);
      token = Figure (pos 1) (Some Number);
      after = drop 23 (tokens_of small One written);
      rest = codes " -7 priced 0\nend\n";
      tokens = refl;
      clean = search rules;
      fault = refl;
      bytes = refl;
      ends = λ low high. omega arith;
      line_is = refl;
    }

-- the change of version 2 from a leaf to the next: each row that differs, with its new multiplier
abbrev two_leaves : Cert
two_leaves = record { claim = Infeasible; cuts = []; tree = Split 1 (pos 0) (Shut (record { scale = 0; pairs = (1, pos 1) ∷ []; picked = These [] })) (Shut (record { scale = 0; pairs = (1, pos 0) ∷ []; picked = Every })) }

change_text : text_of (tokens_of small Two two_leaves) ≡ codes "bpcert 2\nclaim infeasible\nsplit 1 0\nleaf 0 change 1 1 1 priced 0\nleaf 0 change 1 1 0 priced all\nend\n"
unfolding numeral digits_before
change_text = refl

change_clean : AreClean (tokens_of small Two two_leaves)
change_clean = search rules

change_means : (meant Two two_leaves).tree ≡ Split 1 (pos 0) (Shut (record { scale = 0; pairs = (1, pos 1) ∷ []; picked = These [] })) (Shut (record { scale = 0; pairs = []; picked = Every }))
change_means = refl

-- a model of three variables, of two rows that are in two blocks, and of a link row
abbrev linked : Frame
linked = record { variables = 3; rows = 2; is_master = λ _. false; links = 1; blocks = 2; limits = Usual }

abbrev one_link : ℕ → Cert
one_link row = record { claim = Optimal (pos 4) (pos 0 ∷ pos 1 ∷ pos 1 ∷ []); cuts = []; tree = Shut (record { scale = 1; pairs = (row, negsuc 0) ∷ []; picked = Every }) }

-- a leaf may name the link row
link_text : text_of (tokens_of linked Two (one_link 3)) ≡ codes "bpcert 2\nclaim optimal 4\npoint 0 1 1\nleaf 1 change 1 3 -1 priced all\nend\n"
unfolding numeral digits_before
link_text = refl

link_clean : AreClean (tokens_of linked Two (one_link 3))
link_clean = search rules

-- a fault: a leaf names a block's row
block_row_fault : HasFaultyToken linked (codes "bpcert 2\nclaim optimal 4\npoint 0 1 1\nleaf 1 change 1 2 -1 priced all\nend\n") 4 Number
unfolding numeral digits_before
block_row_fault = record {
  version = Two;
  written = one_link 2;
  form = refl;
  before = take 20 (tokens_of linked Two (one_link 2));
  token = Figure (pos 2) (Some Number);
  after = drop 21 (tokens_of linked Two (one_link 2));
  rest = codes " -1 priced all\nend\n";
  tokens = refl;
  clean = search rules;
  fault = refl;
  bytes = refl;
  ends = λ low high. omega arith;
  line_is = refl;
}

-- two cuts, and a leaf that names them
abbrev two_cuts : Cert
two_cuts = record {
  claim = Infeasible;
  cuts = (record { divisor = 2; pairs = (1, pos 1) ∷ [] }) ∷ (record { divisor = 2; pairs = (1, negsuc 0) ∷ [] }) ∷ [];
  tree = Shut (record { scale = 0; pairs = (2, pos 1) ∷ (3, pos 1) ∷ []; picked = These [] });
}

-- a model of two variables and one equality row
abbrev equality : Frame
equality = record { variables = 2; rows = 1; is_master = λ _. true; links = 0; blocks = 2; limits = Usual }

cut_text : text_of (tokens_of equality Three two_cuts) ≡ codes "bpcert 3\nclaim infeasible\ncut 2 rows 1 1 1\ncut 2 rows 1 1 -1\nleaf 0 change 2 2 1 3 1 priced 0\nend\n"
unfolding numeral digits_before
cut_text = refl

cut_clean : AreClean (tokens_of equality Three two_cuts)
cut_clean = search rules
