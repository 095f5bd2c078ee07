-- Lines that are written one behind another.
use Rattle.std.proofs.Common.{◌≡◌, refl, sym, ap, subst, ◌∙◌, ℕ, ℤ, List, [], ◌++◌, drop, Some, Result, Ok, Err, append_assoc, append-nil}
use Rattle.bp_theory.specs.Trees.{Tree}
use Rattle.cert_format.specs.Text.{Two}
use Rattle.cert_format.specs.Plain.{tree_text}
use Rattle.cert_format.specs.Preorder.{Line, line_of, node_lines, IsFirst}
use Rattle.cert_format.specs.declared.lines.NodeLine.{NodeLine}
use Rattle.cert_write.specs.Changes.{changing_nodes}
use Rattle.cert_write.specs.LineTexts.{line_text, lines_text, changing_line, mults_behind, changing_lines}
use Rattle.cert_write.proofs.TreeLines.{one_change, tree_changes}
use Rattle.bp_shelf.specs.Shelf.{Files, OthersAsBefore}
use Rattle.cert_file.specs.Appends.{Adds, Appends}
use Rattle.cert_file.specs.declared.stop.StreamStop.{StreamStop}
use Rattle.cert_file.specs.declared.stop.StreamStop.TheVariants.{Failed, NoMemory}

-- what stopped a text stops one that goes on
pub stopped_before : {X Y : Type 0} (name text more : List ℕ) (before now : Files) (stop : StreamStop) → Appends {X = X} name text before now (Err stop)
    → Appends {X = Y} name (text ++ more) before now (Err stop)
stopped_before name text more before now Failed h = record { adds = tt; others = h.others }
stopped_before name text more before now NoMemory h = record {
  adds = λ file is. let part = h.adds file is in (part.0, part.1 ++ more, ap (λ (xs : List ℕ). xs ++ more) part.2 ∙ append_assoc part.0 part.1 more, part.3);
  others = h.others;
}

-- ---- one text behind another

pub others_on : (name : List ℕ) (before mid now : Files) → OthersAsBefore name before mid → OthersAsBefore name mid now → OthersAsBefore name before now
others_on name before mid now h g = λ other differs. g other differs ∙ h other differs

pub added_on : {X Y : Type 0} (name text more : List ℕ) (before mid now : Files) (x : X) (result : Result Y StreamStop) → Appends name text before mid (Ok x)
    → Appends name more mid now result → Appends name (text ++ more) before now result
added_on {X} {Y} name text more before mid now x result h g = record { adds = by result g.adds; others = others_on name before mid now h.others g.others }
  where
    by : (r : Result Y StreamStop) → Adds name more mid now r → Adds name (text ++ more) before now r
    by (Ok y) adds = λ file is. adds (file ++ text) (h.adds file is) ∙ ap Some (append_assoc file text more)
    by (Err Failed) adds = tt
    by (Err NoMemory) adds = λ file is.
        let part = adds (file ++ text) (h.adds file is) in (
          text ++ part.0,
          part.1,
          ap (λ (xs : List ℕ). text ++ xs) part.2 ∙ sym (append_assoc text part.0 part.1),
          part.3 ∙ ap Some (append_assoc file text part.0),
        )

-- nothing was written yet
pub none_added : (name : List ℕ) (before : Files) → Appends {X = Unit {0}} name [] before before (Ok tt)
none_added name before = record { adds = λ file is. is ∙ ap Some (sym (append-nil file)); others = λ other differs. refl }

-- want of memory behind what was written
pub stopped_behind : {X : Type 0} (name text more : List ℕ) (before now : Files) → Appends {X = Unit {0}} name text before now (Ok tt) → Appends {X = X} name (text ++ more) before now (Err NoMemory)
stopped_behind name text more before now h = record { adds = λ file is. (text, more, refl, h.adds file is); others = h.others }

-- ---- the lines of a tree

-- so much of the lines was written, and this is left
pub record IsWritten (name : List ℕ) (told : Type 0) (before now : Files) (whole left : List ℕ) : Type 0 where
  pub text : List ℕ
  pub parts : whole ≡ text ++ left
  pub files : told → Appends {X = Unit {0}} name text before now (Ok tt)

pub none_written : (name : List ℕ) (told : Type 0) (before : Files) (whole : List ℕ) → IsWritten name told before before whole whole
none_written name told before whole = record { text = []; parts = refl; files = λ _. none_added name before }

-- one line more
pub line_written : (name : List ℕ) (told : Type 0) (before mid now : Files) (whole left rest line : List ℕ) → IsWritten name told before mid whole left → left ≡ line ++ rest
    → (told → Appends {X = Unit {0}} name line mid now (Ok tt)) → IsWritten name told before now whole rest
line_written name told before mid now whole left rest line had is put = record {
  text = had.text ++ line;
  parts = had.parts ∙ ap (λ (xs : List ℕ). had.text ++ xs) is ∙ sym (append_assoc had.text line rest);
  files = λ t. added_on {X = Unit {0}} {Y = Unit {0}} name had.text line before mid now tt (Ok tt) (had.files t) (put t);
}

-- a line that was not written, or not all of it
pub line_stopped : (name : List ℕ) (told : Type 0) (before mid now : Files) (whole left rest line : List ℕ) (stop : StreamStop) → IsWritten name told before mid whole left → left ≡ line ++ rest
    → (told → Appends {X = Unit {0}} name line mid now (Err stop)) → told → Appends {X = Unit {0}} name whole before now (Err stop)
line_stopped name told before mid now whole left rest line stop had is put t =
    let P : List ℕ → Type 0 = λ text. Appends {X = Unit {0}} name text before now (Err stop) in
    let parts : whole ≡ (had.text ++ line) ++ rest = had.parts ∙ ap (λ (xs : List ℕ). had.text ++ xs) is ∙ sym (append_assoc had.text line rest) in
    subst P (sym parts) (stopped_before name (had.text ++ line) rest before now stop (added_on {X = Unit {0}} {Y = Unit {0}} name had.text line before mid now tt (Err stop) (had.files t) (put t)))

-- want of memory between two lines
pub between_stopped : (name : List ℕ) (told : Type 0) (before now : Files) (whole left : List ℕ) → IsWritten name told before now whole left → told → Appends {X = Unit {0}} name whole before now (Err NoMemory)
between_stopped name told before now whole left had t =
    let P : List ℕ → Type 0 = λ text. Appends {X = Unit {0}} name text before now (Err NoMemory) in
    subst P (sym had.parts) (stopped_behind name had.text left before now (had.files t))

-- all of it
pub all_written : (name : List ℕ) (told : Type 0) (before now : Files) (whole left : List ℕ) → IsWritten name told before now whole left → left ≡ [] → told → Appends {X = Unit {0}} name whole before now (Ok tt)
all_written name told before now whole left had none t =
    let P : List ℕ → Type 0 = λ text. Appends {X = Unit {0}} name text before now (Ok tt) in
    subst P (sym (had.parts ∙ ap (λ (xs : List ℕ). had.text ++ xs) none ∙ append-nil had.text)) (had.files t)

-- the lines that are left are the one at hand and those behind it
pub left_parts : (line : NodeLine) (lines next : List Line) (had last : List (ℕ × ℤ)) → IsFirst (Some line) lines → next ≡ drop 1 lines → last ≡ mults_behind had (line_of line)
    → lines_text Two (changing_lines had lines) ≡ line_text Two (changing_line had (line_of line)) ++ lines_text Two (changing_lines last next)
left_parts line lines next had last first behind now =
    let l : List ℕ = line_text Two (changing_line had (line_of line)) in
    sym (one_change line lines next had last [] l first behind now refl)

-- the text of a tree is that of its lines
pub of_tree : {R : Type 0} (name : List ℕ) (before now : Files) (had : List (ℕ × ℤ)) (lines : List Line) (tree : Tree) (result : Result R StreamStop) → lines ≡ node_lines tree
    → Appends name (lines_text Two (changing_lines had lines)) before now result → Appends name (tree_text Two (changing_nodes had tree)) before now result
of_tree name before now had lines tree result is h =
    subst (λ (text : List ℕ). Appends name text before now result) (ap (λ (ls : List Line). lines_text Two (changing_lines had ls)) is ∙ tree_changes had tree) h
