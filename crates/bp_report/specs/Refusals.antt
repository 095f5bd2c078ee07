-- The bytes of the reports on words and texts that are refused.
use Rattle.std.specs.Prelude.{ℕ, ◌<◌, List, [], ◌++◌, length, get_or, Option, Some, None, codes}
use Rattle.bp_model.specs.Named.{NamedProgram}
use Rattle.lp_token.specs.declared.LpKind.{LpKind}
use Rattle.lp_token.specs.declared.fault.LpFault.TheVariants as lp_fault
use Rattle.dec_syntax.specs.declared.kind.DecKind.{DecKind}
use Rattle.dec_read.specs.declared.fault.DecFault.TheVariants as dec_fault
use Rattle.cert_format.specs.declared.fault.CertKind.{CertKind}
use Rattle.cert_format.specs.declared.fault.CertFault.TheVariants as cert_fault
use Rattle.block_form.specs.declared.fault.BlockFault.{BlockFault}
use Rattle.block_form.specs.declared.fault.BlockFault.TheVariants as block
use Rattle.dec_write.specs.declared.fault.RowsKind.{RowsKind}
use Rattle.dec_write.specs.declared.fault.RowsFault.TheVariants as rows_fault
use Rattle.report_lines.specs.Lines.{count_line, fault_line}
use Rattle.report_lines.specs.Kinds.{lp_kind_name, dec_kind_name, cert_kind_name, rows_kind_name}
use Rattle.bp_report.specs.declared.refused.Refusal.{Refusal}
use Rattle.bp_report.specs.declared.refused.Refusal.TheVariants.{Words, Lp, Dec, Cert, Blocks, Rows}

-- the report on words that are no command line
abbrev pub words_refusal : List ℕ
words_refusal = codes "refused words\n"

-- the report on an LP text, on the text of a decomposition and on that of a certificate with a fault
abbrev pub lp_refusal : (line : ℕ) → LpKind → List ℕ
lp_refusal line kind = fault_line (codes "refused lp ") line (lp_kind_name kind)

abbrev pub dec_refusal : (line : ℕ) → DecKind → List ℕ
dec_refusal line kind = fault_line (codes "refused dec ") line (dec_kind_name kind)

abbrev pub cert_refusal : (line : ℕ) → CertKind → List ℕ
cert_refusal line kind = fault_line (codes "refused cert ") line (cert_kind_name kind)

-- the report on a certificate to go on from whose leaf of this line is too deep
abbrev pub from_refusal : (line : ℕ) → List ℕ
from_refusal line = fault_line (codes "refused from ") line (codes "depth")

-- the report on two certificates to merge, of which the second has another cut on this line than the first
abbrev pub merge_refusal : (line : ℕ) → List ℕ
merge_refusal line = fault_line (codes "refused merge ") line (codes "cuts")

-- the report on a certificate to go on from that has no open leaf of this number
abbrev pub leaf_refusal : (number : ℕ) → List ℕ
leaf_refusal number = count_line (codes "refused leaf ") number

-- the report on a list of master rows with a fault, or that leaves too many blocks
abbrev pub rows_refusal : (line : ℕ) → RowsKind → List ℕ
rows_refusal line kind = fault_line (codes "refused rows ") line (rows_kind_name kind)

-- the line on link rows that are too many or too large
abbrev pub links_refusal : List ℕ
links_refusal = codes "refused blocks links\n"

-- the line on a misplaced variable
abbrev pub var_place_line : (var : List ℕ) → List ℕ
var_place_line var = codes "refused blocks var-place " ++ var ++ codes "\n"

-- the report on a decomposition whose blocks are refused: the misplaced variable by its name, or that links are too many or too large; want of
-- memory has no report
abbrev pub blocks_refusal : NamedProgram → BlockFault → List ℕ
blocks_refusal m (block.VarPlace var) = var_place_line (get_or m.names var [])
blocks_refusal m block.Links = links_refusal
blocks_refusal m block.NoMemory = []

-- the variable that a fault names is there
abbrev pub HasNamed : NamedProgram → BlockFault → Type 0
HasNamed m (block.VarPlace var) = var < length m.program.spans
HasNamed m block.Links = Unit {0}
HasNamed m block.NoMemory = Unit {0}

-- the names that a refusal tells are at hand
abbrev pub CanName : Option NamedProgram → Refusal → Type 0
CanName (Some m) (Blocks fault) = HasNamed m fault
CanName None (Blocks fault) = ⊥
CanName m Words = Unit {0}
CanName m (Lp fault) = Unit {0}
CanName m (Dec fault) = Unit {0}
CanName m (Cert fault) = Unit {0}
CanName m (Rows fault) = Unit {0}

-- the report on what is refused; want of memory has none
abbrev pub refusal_report : Option NamedProgram → Refusal → List ℕ
refusal_report m Words = words_refusal
refusal_report m (Lp (lp_fault.At line kind)) = lp_refusal line kind
refusal_report m (Lp lp_fault.NoMemory) = []
refusal_report m (Dec (dec_fault.At line kind)) = dec_refusal line kind
refusal_report m (Dec dec_fault.NoMemory) = []
refusal_report m (Cert (cert_fault.At line kind)) = cert_refusal line kind
refusal_report m (Cert cert_fault.NoMemory) = []
refusal_report m (Rows (rows_fault.At line kind)) = rows_refusal line kind
refusal_report m (Rows rows_fault.NoMemory) = []
refusal_report (Some m) (Blocks fault) = blocks_refusal m fault
refusal_report None (Blocks fault) = []
