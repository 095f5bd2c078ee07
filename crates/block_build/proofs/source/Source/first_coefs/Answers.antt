use Rattle.std.proofs.Common.{◌≡◌, ◌∙◌, ◌<◌, ◌++◌, List, ℕ, [], length, get_or, ap, arith}
use Rattle.std.specs.Prelude.{ℤ}
use Rattle.std.proofs.lemmas.List.{get_or_read}
use Rattle.block_build.specs.Columns.{master_entries}
use Rattle.block_build.specs.Homes.{further, link_entries}
use Rattle.block_build.proofs.CopyLemmas.{few_links, few_further}
use Rattle.block_build.proofs.SumLemmas.{further_few}
use Rattle.block_build.proofs.source.Source.first_coefs.Goals as goal

pub index-requires : goal.index-requires
index-requires c = omega (arith, c.requires.var, c.requires.source.each_column, c.args.self.now.columns.ok.0)

pub index-requires-2 : goal.index-requires-2
index-requires-2 c = omega (arith, c.requires.var, c.requires.source.homes.0, c.args.self.now.homes.ok.0)

pub index-requires-3 : goal.index-requires-3
index-requires-3 c = omega (arith, c.requires.var, c.requires.source.homes.0, c.requires.source.links.0, c.args.self.now.links.ok.0)

pub index-requires-4 : goal.index-requires-4
index-requires-4 c = omega (arith, c.requires.var, c.requires.source.each_cut_column, c.args.self.now.cut_columns.ok.0)

pub push_links-requires : goal.push_links-requires
push_links-requires c =
    let s = c.args.self.now in
    let v = c.args.var in
    let homes_inside : v < length s.homes.items = omega (arith, c.requires.var, c.requires.source.homes.0) in
    let links_inside : v < length s.links.items = omega (arith, homes_inside, c.requires.source.links.0) in
    omega (
      arith,
      few_links s v c.index-3.result.now c.requires.source c.requires.var (get_or_read s.links.items v c.index-3.result.now links_inside c.index-3.ensures c.index-3.result.now),
      few_further s v c.index-2.result.now c.requires.source c.requires.var (get_or_read s.homes.items v c.index-2.result.now homes_inside c.index-2.ensures c.index-2.result.now),
      c.len.ensures,
      c.saturating_sub-further.ensures,
    )

pub returns : goal.returns
returns c =
    let s = c.args.self.now in
    let v = c.args.var in
    let columns_inside : v < length s.columns.items = omega (arith, c.requires.var, c.requires.source.each_column) in
    let homes_inside : v < length s.homes.items = omega (arith, c.requires.var, c.requires.source.homes.0) in
    let links_inside : v < length s.links.items = omega (arith, homes_inside, c.requires.source.links.0) in
    let cuts_inside : v < length s.cut_columns.items = omega (arith, c.requires.var, c.requires.source.each_cut_column) in
    let column : c.as_slice-column.result.now ≡ get_or s.columns.items v [] =
    c.as_slice-column.ensures ∙ get_or_read s.columns.items v c.index.result.now columns_inside c.index.ensures [] in
    let homes : c.index-2.result.now ≡ get_or s.homes.items v [] = get_or_read s.homes.items v c.index-2.result.now homes_inside c.index-2.ensures [] in
    let link : c.index-3.result.now ≡ get_or s.links.items v 0 = get_or_read s.links.items v c.index-3.result.now links_inside c.index-3.ensures 0 in
    let cuts : c.as_slice.result.now ≡ get_or s.cut_columns.items v [] =
    c.as_slice.ensures ∙ get_or_read s.cut_columns.items v c.index-4.result.now cuts_inside c.index-4.ensures [] in
    let count : c.saturating_sub-further.result ≡ further (get_or s.homes.items v []) =
    omega (arith, c.saturating_sub-further.ensures, c.len.ensures, further_few (get_or s.homes.items v []), ap (λ (ks : List ℕ). length ks) homes) in
    c.from_vec.ensures ∙ c.in_ok-push_entries.ensures
    ∙ ap (λ (es : List (ℕ × ℤ)). es ++ c.as_slice.result.now)
    (c.in_ok-push_links.ensures
    ∙ ap (λ (es : List (ℕ × ℤ)). es ++ link_entries c.index-3.result.now c.saturating_sub-further.result)
    (c.in_ok-coefs.ensures ∙ ap (λ (es : List (ℕ × ℤ)). master_entries c.places.result.now es) column ∙ ap (λ ps. master_entries ps (get_or s.columns.items v [])) c.places.ensures)
    ∙ ap (λ n. master_entries s.dec.now.places (get_or s.columns.items v []) ++ link_entries n c.saturating_sub-further.result) link
    ∙ ap (λ n. master_entries s.dec.now.places (get_or s.columns.items v []) ++ link_entries (get_or s.links.items v 0) n) count)
    ∙ ap (λ (es : List (ℕ × ℤ)). (master_entries s.dec.now.places (get_or s.columns.items v []) ++ link_entries (get_or s.links.items v 0) (further (get_or s.homes.items v []))) ++ es) cuts
