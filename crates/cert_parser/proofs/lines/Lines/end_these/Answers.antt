use Rattle.std.proofs.Common.{◌∙◌, ap, List, ℕ, ℤ}
use Rattle.bp_theory.specs.declared.Picked.TheVariants.{These}
use Rattle.cert_format.specs.Cert.{changed}
use Rattle.cert_format.specs.Versions.{had_behind}
use Rattle.cert_format.specs.Written.{written_claim, written_proof}
use Rattle.cert_format.specs.Stages.{leaf_of, behind_leaf}
use Rattle.cert_parser.specs.Readers.{told_of}
use Rattle.cert_parser.proofs.LineFacts.{leaf_behind}
use Rattle.cert_parser.proofs.lines.Lines.end_these.Goals as goal

pub returns-clause-place : goal.returns-clause-place
returns-clause-place c =
    let r = c.args.self.now in
    let had = r.had.pairs.items in
    let mults = c.in_ok-mults.mults in
    let blocks = c.replace-blocks.result in
    let changes = c.in_ok-mults.ensures.mults ∙ ap (λ (ps : List (ℕ × ℤ)). changed had ps) c.as_slice.ensures in
    let next = c.in_ok-mults.ensures.had ∙ ap (λ (ps : List (ℕ × ℤ)). had_behind r.version had ps) c.as_slice.ensures in
    let tree = leaf_of r.is_open (written_proof (record { scale = r.scale; mults = mults; picked = These blocks })) in
    λ above root cuts n highs.
    c.leave_leaf.ensures.place above root tree cuts n (record { depth = highs.depth; highs = highs.highs; cuts = highs.cuts; few = highs.few })
    ∙ leaf_behind r.version (written_claim r.claim r.point) cuts above r.is_open r.scale (These blocks) had r.mults c.next.new.self.pairs.items mults changes next
    ∙ ap (λ (ks : List ℕ). behind_leaf (told_of cuts r) above r.is_open (written_proof (record { scale = r.scale; mults = r.mults; picked = These ks }))) c.replace-blocks.ensures.value

pub returns-clause-highs : goal.returns-clause-highs
returns-clause-highs c =
    let r = c.args.self.now in
    let tree = leaf_of r.is_open (written_proof (record { scale = r.scale; mults = c.in_ok-mults.mults; picked = These c.replace-blocks.result })) in
    λ above cuts highs. c.leave_leaf.ensures.highs above tree cuts (record { depth = highs.depth; highs = highs.highs; cuts = highs.cuts; few = highs.few })
