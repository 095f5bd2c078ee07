-- The splits above the next tree, as a reader of certificates keeps them.
use Rattle.std.proofs.Common.{◌≡◌, ℕ, List, [], ◌∷◌, ◌++◌, refl, sym, ap, ◌∙◌, subst}
use Rattle.std.specs.Prelude.{Err}
use Rattle.cert_format.specs.Cert.{Cut, Tree, Split}
use Rattle.cert_format.specs.Written.{in_text}
use Rattle.cert_format.specs.Stages.{Wait}
use Rattle.cert_parser.specs.Readers.{waits_behind, root_behind}
use Rattle.cert_parser.specs.Standing.{StandsFor, Steps}
use Rattle.cert_parser.specs.Builders.{wait_of, waits_on, waits_of, root_of, BuildsOn}
use Rattle.cert_format.specs.declared.fault.CertFault.{CertFault}
use Rattle.cert_format.specs.declared.fault.CertFault.TheVariants.{At, NoMemory}
use Rattle.cert_format.specs.declared.frame.Frame.{Frame}
use Rattle.cert_parser.specs.declared.lines.Lines.{Lines}
use Rattle.cert_parser.specs.declared.lines.SplitPlace.{SplitPlace}
use Rattle.cert_format.specs.declared.sketch.Sketch.{Sketch}
use Rattle.cert_parser.specs.declared.reader.Pending.{Pending}
use Rattle.cert_parser.specs.declared.reader.Pending.TheVariants.{Low, High}
use Rattle.cert_parser.specs.declared.reader.Reader.{Reader}

-- the last one kept is the nearest one
pub waits_on-push : (ps : List Pending) (p : Pending) (ws : List Wait) → waits_on (ps ++ p ∷ []) ws ≡ wait_of p ∷ waits_on ps ws
waits_on-push [] p ws = refl
waits_on-push (q ∷ ps) p ws = waits_on-push ps p (wait_of q ∷ ws)

-- the same by an equation of the lists
pub pushed : (new old : List Pending) (p : Pending) → new ≡ old ++ p ∷ [] → waits_of new ≡ wait_of p ∷ waits_of old
pushed new old p same = ap waits_of same ∙ waits_on-push old p []

-- a whole tree becomes the low part of the nearest split
pub low_done : (old popped new : List Pending) (o : Pending) (p : SplitPlace) (tree : Sketch) (W : List Wait) → old ≡ popped ++ o ∷ [] → o ≡ Low p → new ≡ popped ++ High p tree ∷ []
    → waits_behind (waits_of old) (root_of tree) ≡ W → waits_of new ≡ W
low_done old popped new o p tree W was is now same =
    let t = root_of tree in
    let before : waits_of old ≡ wait_of (Low p) ∷ waits_of popped = pushed old popped o was ∙ ap (λ (x : Pending). wait_of x ∷ waits_of popped) is in
    pushed new popped (High p tree) now ∙ sym (ap (λ (ws : List Wait). waits_behind ws t) before) ∙ same

-- the root is what it was then
pub low_root : (old popped : List Pending) (o : Pending) (p : SplitPlace) (root t R : Tree) → old ≡ popped ++ o ∷ [] → o ≡ Low p → root_behind (waits_of old) root t ≡ R → root ≡ R
low_root old popped o p root t R was is same =
    let before : waits_of old ≡ wait_of (Low p) ∷ waits_of popped = pushed old popped o was ∙ ap (λ (x : Pending). wait_of x ∷ waits_of popped) is in
    sym (ap (λ (ws : List Wait). root_behind ws root t) before) ∙ same

-- a whole tree becomes the high part of the nearest split
pub high_done : (old popped : List Pending) (o : Pending) (p : SplitPlace) (low tree joined : Sketch) (W : List Wait) → old ≡ popped ++ o ∷ [] → o ≡ High p low
    → root_of joined ≡ Split (in_text p.var) p.at (root_of low) (root_of tree)
    → waits_behind (waits_of old) (root_of tree) ≡ W → waits_behind (waits_of popped) (root_of joined) ≡ W
high_done old popped o p low tree joined W was is both same =
    let t = root_of tree in
    let before : waits_of old ≡ wait_of (High p low) ∷ waits_of popped = pushed old popped o was ∙ ap (λ (x : Pending). wait_of x ∷ waits_of popped) is in
    ap (λ (x : Tree). waits_behind (waits_of popped) x) both ∙ sym (ap (λ (ws : List Wait). waits_behind ws t) before) ∙ same

pub high_root : (old popped : List Pending) (o : Pending) (p : SplitPlace) (low tree joined : Sketch) (root R : Tree) → old ≡ popped ++ o ∷ [] → o ≡ High p low
    → root_of joined ≡ Split (in_text p.var) p.at (root_of low) (root_of tree)
    → root_behind (waits_of old) root (root_of tree) ≡ R → root_behind (waits_of popped) root (root_of joined) ≡ R
high_root old popped o p low tree joined root R was is both same =
    let t = root_of tree in
    let before : waits_of old ≡ wait_of (High p low) ∷ waits_of popped = pushed old popped o was ∙ ap (λ (x : Pending). wait_of x ∷ waits_of popped) is in
    ap (λ (x : Tree). root_behind (waits_of popped) root x) both ∙ sym (ap (λ (ws : List Wait). root_behind ws root t) before) ∙ same

-- no split is above a whole tree
pub none_waits : (ps : List Pending) (t : Tree) (W : List Wait) → ps ≡ [] → waits_behind (waits_of ps) t ≡ W → waits_of ps ≡ W
none_waits ps t W none same =
    let nothing : waits_of ps ≡ [] = ap waits_of none in
    nothing ∙ sym (ap (λ (ws : List Wait). waits_behind ws t) nothing) ∙ same

pub none_root : (ps : List Pending) (root t R : Tree) → ps ≡ [] → root_behind (waits_of ps) root t ≡ R → t ≡ R
none_root ps root t R none same =
    let nothing : waits_of ps ≡ [] = ap waits_of none in
    sym (ap (λ (ws : List Wait). root_behind ws root t) nothing) ∙ same

-- a reader whose lines, tree and cuts are these stands for the same texts
pub builds_on : (frame : Frame) (lines now : Lines) (above waits : List Wait) (root tree : Tree) (cuts all : List Cut) (text : List ℕ) → now ≡ lines → waits ≡ above → tree ≡ root → all ≡ cuts → StandsFor above root cuts frame lines text
    → StandsFor waits tree all frame now text
builds_on frame lines now above waits root tree cuts all text same_lines same_waits same_root same_cuts stands =
    let P : Lines → Type 0 = λ r. StandsFor above root cuts frame r text in
    let Q : List Wait → Type 0 = λ ws. StandsFor ws root cuts frame now text in
    let R : Tree → Type 0 = λ t. StandsFor waits t cuts frame now text in
    let S : List Cut → Type 0 = λ cs. StandsFor waits tree cs frame now text in
    subst S (sym same_cuts) (subst R (sym same_root) (subst Q (sym same_waits) (subst P (sym same_lines) stands)))

-- a fault of a line is one of the reader
pub line_at_fault : (above : List Wait) (root : Tree) (cuts : List Cut) (frame : Frame) (lines : Lines) (new : Reader) (text : List ℕ) (byte : ℕ) (e : CertFault) → Steps above root cuts frame lines text byte (Err e) → BuildsOn frame new text byte (Err e)
line_at_fault above root cuts frame lines new text byte NoMemory steps = tt
line_at_fault above root cuts frame lines new text byte (At line kind) steps = steps
