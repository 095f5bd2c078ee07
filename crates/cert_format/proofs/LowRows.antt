-- Rows that may be named are among those of the model, the link rows and the cuts.
use Rattle.std.proofs.Common.{◌≡◌, ℕ, ◌+◌, ◌≤◌, Bool, true, false, ◌&&◌, ◌||◌, length, refl, sym, arith, nat_lt, nat_le}
use Rattle.std.proofs.lemmas.Bool.{leb-true, true≢false}
use Rattle.cert_format.specs.Text.{may_name, may_combine}
use Rattle.cert_format.specs.Frames.{is_master, frame_of}
use Rattle.cert_format.specs.declared.frame.Frame.{Frame}

row_low : (rows links cuts row : ℕ) (master behind : Bool) → ((nat_le row rows && master) || (behind && nat_le row (rows + links + cuts))) ≡ true → row ≤ rows + links + cuts
row_low rows links cuts row master behind is = by (nat_le row rows) master behind (nat_le row (rows + links + cuts)) refl refl is where
  by : (w x u v : Bool) → nat_le row rows ≡ w → nat_le row (rows + links + cuts) ≡ v → ((w && x) || (u && v)) ≡ true → row ≤ rows + links + cuts
  by true x u v p q is = let low = leb-true row rows p in omega (arith, low)
  by false x true true p q is = let low = leb-true row (rows + links + cuts) q in omega (arith, low)
  by false x true false p q is = absurd (true≢false (sym is))
  by false x false v p q is = absurd (true≢false (sym is))

-- a row that may be named is among the model's rows, the link rows and the cuts
pub named_low : (frame : Frame) (cuts row : ℕ) → may_name (frame_of frame) cuts row ≡ true → row ≤ length frame.masters + frame.links + cuts
named_low frame cuts row is = row_low (length frame.masters) frame.links cuts row (is_master frame row) (nat_lt (length frame.masters) row) is

pub combined_low : (frame : Frame) (cuts row : ℕ) → may_combine (frame_of frame) cuts row ≡ true → row ≤ length frame.masters + frame.links + cuts
combined_low frame cuts row is = row_low (length frame.masters) frame.links cuts row (is_master frame row) (nat_lt (length frame.masters + frame.links) row) is
