use Rattle.std.proofs.Common.{ℕ, List, sym, subst}
use Rattle.dec_read.specs.Reading.{ReadsDecomposition}
use Rattle.dec_write.proofs.TextLemmas.{text_reads, writable}
use Rattle.dec_write.proofs.LengthLemmas.{text_short}
use Rattle.dec_find.proofs.text.dec_text.Goals as goal

pub returns-clause-text : goal.returns-clause-text
returns-clause-text c = c.in_ok-text.ensures c.args.m.now c.args.dec.now c.blocks-2.ensures.blocks c.in_ok-lines.ensures

pub returns-clause-read_back : goal.returns-clause-read_back
returns-clause-read_back c =
    let m = c.args.m.now in
    let d = c.args.dec.now in
    subst (λ (t : List ℕ). ReadsDecomposition t m d) (sym (returns-clause-text c))
    (text_reads m d (writable m d c.rows-rows.ensures.kept c.requires.places c.requires.names c.requires.few) c.requires.unlisted (text_short m d c.rows-rows.ensures.kept c.requires.names c.requires.few))
