-- The sizes of what a search keeps.
use Rattle.std.specs.Prelude.{◌≡◌, length}
use Rattle.enumeration.specs.declared.dive.Dive.{Dive}
use Rattle.enumeration.specs.declared.form.Form.{Form}

-- a search has a place for each variable and for each row
pub record HasPlaces (form : Form) (d : Dive) : Type 0 where
  pub zone : length d.zone.items ≡ length form.spans.items
  pub point : length d.point.items ≡ length form.spans.items
  pub lows : length d.lows.items ≡ length form.rows.items
  pub highs : length d.highs.items ≡ length form.rows.items
