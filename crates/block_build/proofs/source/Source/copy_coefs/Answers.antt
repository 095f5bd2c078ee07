use Rattle.std.proofs.Common.{◌≡◌, ◌∙◌, ◌+◌, ◌<◌, ◌∷◌, [], ℕ, List, length, sym, arith}
use Rattle.std.specs.Prelude.{ℤ, negsuc}
use Rattle.std.proofs.lemmas.List.{get_or_read}
use Rattle.block_build.specs.Source.{copy_in, first_entries}
use Rattle.block_build.proofs.CopyLemmas.{first_coefs_are, further_coefs_are, behind_first, few_links, few_places}
use Rattle.block_build.proofs.GatherLemmas.{if_ok}
use Rattle.block_build.proofs.source.Source.copy_coefs.Goals as goal

pub index-requires : goal.index-requires
index-requires c = omega (arith, c.requires.var, c.requires.source.homes.0, c.requires.source.links.0, c.args.self.now.links.ok.0)

pub further_coefs-requires-clause-behind : goal.further_coefs-requires-clause-behind
further_coefs-requires-clause-behind c = let later = behind_first c.copy_place-place.result c.if-place-eq0.false in omega (arith, later.1)

pub further_coefs-requires-clause-few : goal.further_coefs-requires-clause-few
further_coefs-requires-clause-few c =
    let s = c.args.self.now in
    let inside : c.args.var < length s.links.items = omega (arith, c.requires.var, c.requires.source.homes.0, c.requires.source.links.0) in
    omega (
      arith,
      few_links s c.args.var c.index.result.now c.requires.source c.requires.var (get_or_read s.links.items c.args.var c.index.result.now inside c.index.ensures c.index.result.now),
      few_places s c.args.block c.args.var c.copy_place-place.result c.requires.source c.copy_place-place.ensures,
    )

pub returns-then-place-eq0 : goal.returns-then-place-eq0
returns-then-place-eq0 c =
    let s = c.args.self.now in
    if_ok c.first_coefs.result (λ (coefs : List (ℕ × ℤ)). coefs ≡ first_entries s c.args.var) (λ (coefs : List (ℕ × ℤ)). coefs ≡ (copy_in s c.args.block c.args.var).coefs)
    (λ coefs h. h ∙ first_coefs_are s c.args.block c.args.var c.requires.source c.requires.var c.requires.held (sym c.copy_place-place.ensures ∙ c.if-place-eq0.true))
    c.first_coefs.ensures

pub returns-else-place-eq0 : goal.returns-else-place-eq0
returns-else-place-eq0 c =
    let s = c.args.self.now in
    let link : ℕ = c.index.result.now in
    let inside : c.args.var < length s.links.items = omega (arith, c.requires.var, c.requires.source.homes.0, c.requires.source.links.0) in
    let later = behind_first c.copy_place-place.result c.if-place-eq0.false in
    if_ok c.further_coefs.result (λ (coefs : List (ℕ × ℤ)). (n : ℕ) → n + 1 ≡ link + c.copy_place-place.result → coefs ≡ (n, negsuc 0) ∷ [])
    (λ (coefs : List (ℕ × ℤ)). coefs ≡ (copy_in s c.args.block c.args.var).coefs)
    (λ coefs h. h (link + later.0) (omega (arith, later.1))
    ∙ further_coefs_are s c.args.block c.args.var later.0 link (link + later.0) c.requires.source c.requires.var c.requires.held (sym c.copy_place-place.ensures ∙ later.1)
    (get_or_read s.links.items c.args.var link inside c.index.ensures 0) (omega arith))
    c.further_coefs.ensures
