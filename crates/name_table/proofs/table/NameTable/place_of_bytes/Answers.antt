-- What isn't UTF-8 is no string's bytes.
use Rattle.std.proofs.Common.{List, ℕ, get_or, string_bytes, String, Global, Contains, subst, sym}
use Rattle.std.specs.Str.{IsUtf8}
use Rattle.std.proofs.lemmas.Str.{IsUtf8-string_bytes}
use Rattle.std.proofs.lemmas.List.Elements.{All-contains, All-map}
use Rattle.name_table.proofs.NameLemmas.{texts}
use Rattle.name_table.proofs.table.NameTable.place_of_bytes.Goals as goal

texts_are_utf8 : (q : List ℕ) (ks : List (String Global)) → Contains (texts ks) q → IsUtf8 q
texts_are_utf8 q ks there =
    All-contains IsUtf8 (texts ks) q (All-map IsUtf8 string_bytes ks (λ k d l. IsUtf8-string_bytes (get_or ks k d))) there

pub returns-in-Err-clause-absent : goal.returns-in-Err-clause-absent
returns-in-Err-clause-absent c =
    λ there. c.in-Err.ensures.cases.0 (texts_are_utf8 c.args.name.now c.self.inside.table.keys (subst (λ names. Contains names c.args.name.now) (sym c.self.view_is) there))
