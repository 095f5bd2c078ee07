-- The kinds of faults as reports name them.
use Rattle.std.specs.Prelude.{ℕ, List, codes}
use Rattle.bp_theory.specs.declared.CheckKind.{CheckKind}
use Rattle.bp_theory.specs.declared.CheckKind.TheVariants as check
use Rattle.lp_token.specs.declared.LpKind.{LpKind}
use Rattle.lp_token.specs.declared.LpKind.TheVariants as lp
use Rattle.dec_syntax.specs.declared.kind.DecKind.{DecKind}
use Rattle.dec_syntax.specs.declared.kind.DecKind.TheVariants as dec
use Rattle.dec_write.specs.declared.fault.RowsKind.{RowsKind}
use Rattle.dec_write.specs.declared.fault.RowsKind.TheVariants as rows
use Rattle.cert_format.specs.declared.fault.CertKind.{CertKind}
use Rattle.cert_format.specs.declared.fault.CertKind.TheVariants as cert

-- a kind of fault of an LP text, as reports name it
abbrev pub lp_kind_name : LpKind → List ℕ
lp_kind_name lp.BadByte = codes "bad-byte"
lp_kind_name lp.NotWhole = codes "not-whole"
lp_kind_name lp.TooLarge = codes "too-large"
lp_kind_name lp.Syntax = codes "syntax"
lp_kind_name lp.Feature = codes "feature"
lp_kind_name lp.LongName = codes "long-name"
lp_kind_name lp.RowTwice = codes "row-twice"
lp_kind_name lp.NoEnd = codes "no-end"
lp_kind_name lp.Unbounded = codes "unbounded"
lp_kind_name lp.Continuous = codes "continuous"
lp_kind_name lp.Crossed = codes "crossed"
lp_kind_name lp.Activity = codes "activity"
lp_kind_name lp.Limit = codes "limit"

-- a kind of fault of the text of a decomposition
abbrev pub dec_kind_name : DecKind → List ℕ
dec_kind_name dec.BadByte = codes "bad-byte"
dec_kind_name dec.Syntax = codes "syntax"
dec_kind_name dec.Presolved = codes "presolved"
dec_kind_name dec.NoNblocks = codes "no-nblocks"
dec_kind_name dec.BlockNumber = codes "block-number"
dec_kind_name dec.UnknownRow = codes "unknown-row"
dec_kind_name dec.RowTwice = codes "row-twice"
dec_kind_name dec.Unassigned = codes "unassigned"
dec_kind_name dec.UnknownVar = codes "unknown-var"
dec_kind_name dec.Limit = codes "limit"

-- a kind of fault of the text of a certificate
abbrev pub cert_kind_name : CertKind → List ℕ
cert_kind_name cert.Syntax = codes "syntax"
cert_kind_name cert.TooLarge = codes "too-large"
cert_kind_name cert.Number = codes "number"
cert_kind_name cert.Length = codes "length"
cert_kind_name cert.Depth = codes "depth"
cert_kind_name cert.Limit = codes "limit"

-- a kind of fault of a list of master rows
abbrev pub rows_kind_name : RowsKind → List ℕ
rows_kind_name rows.BadByte = codes "bad-byte"
rows_kind_name rows.UnknownRow = codes "unknown-row"
rows_kind_name rows.RowTwice = codes "row-twice"
rows_kind_name rows.Blocks = codes "blocks"
rows_kind_name rows.Limit = codes "limit"

-- a kind of fault of a line of a certificate, as reports name it
abbrev pub check_kind_name : CheckKind → List ℕ
check_kind_name check.PointBound = codes "point-bound"
check_kind_name check.PointRow = codes "point-row"
check_kind_name check.Value = codes "value"
check_kind_name check.Split = codes "split"
check_kind_name check.Sign = codes "sign"
check_kind_name check.Weak = codes "weak"
check_kind_name check.Open = codes "open"
check_kind_name check.Cut = codes "cut"
