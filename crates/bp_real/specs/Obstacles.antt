-- What stands in the way of a run, by what is told of the files that it names.
use Rattle.std.specs.Prelude.{ℕ, Bool, true, false, ◌&&◌, ◌||◌, ◌==◌, if◌then◌else◌, List, [], ◌∷◌, Option, Some, None, string_bytes}
use Rattle.std.specs.Option.{option_map}
use Rattle.std.specs.Str.{bytes_eq}
use Rattle.std.specs.declared.io.ErrorKind.{ErrorKind}
use Rattle.std.specs.declared.io.ErrorKind.TheVariants.{IsADirectory}
use Rattle.bp_real.specs.declared.place.Place.{Place}
use Rattle.bp_real.specs.declared.survey.Kind.{Kind}
use Rattle.bp_real.specs.declared.survey.Kind.TheVariants.{Folder, Plain, Other}
use Rattle.bp_real.specs.declared.obstacle.Obstacle.{Obstacle}
use Rattle.bp_real.specs.declared.obstacle.Obstacle.TheVariants as found

-- a file's name
abbrev pub Name : Type 0
Name = List ℕ

-- where a file is: its device and its number there; of one that isn't there those of its folder, and its name below
pub record Spot : Type 0 where
  pub device : ℕ
  pub inode : ℕ
  pub below : Option Name

abbrev pub spot_of : Place → Spot
spot_of place = record { device = place.device; inode = place.inode; below = option_map string_bytes place.below }

-- what is told of a name: where its file is, or would be; what stands there; why a file that is there can't be opened to be
-- written; why one that isn't there can't be made
pub record Told : Type 0 where
  pub spot : Name → Option Spot
  pub kind : Name → Option Kind
  pub opening : Name → Option ErrorKind
  pub making : Name → Option ErrorKind

-- a file that would be written and is another one as well, by both names; or a certificate that can't be written, and why
pub data Hindrance : Type 0 where
  shared : Name → Name → Hindrance
  unwritable : Name → ErrorKind → Hindrance

-- what an obstacle says
abbrev pub said : Obstacle → Hindrance
said (found.Shared written other) = shared written.now other.now
said (found.Unwritable name kind) = unwritable name.now kind

-- whether two names below a folder are the same, or both lack
abbrev pub same_below : Option Name → Option Name → Bool
same_below None None = true
same_below (Some one) (Some other) = bytes_eq one other
same_below _ _ = false

-- whether two files are at the same place, as far as it is known where they are
abbrev pub is_same_spot : Option Spot → Option Spot → Bool
is_same_spot (Some one) (Some other) = (one.device == other.device) && ((one.inode == other.inode) && same_below one.below other.below)
is_same_spot _ _ = false

-- whether two names stand for one file: they are the same, or their places are
abbrev pub is_one_file : Told → Name → Name → Bool
is_one_file told one other = bytes_eq other one || is_same_spot (told.spot one) (told.spot other)

-- the first of two
abbrev pub or_else : {A : Type 0} → Option A → Option A → Option A
or_else None other = other
or_else (Some a) other = Some a

-- a file that would be written, where it is another one as well
abbrev pub shared_with : Told → Name → Option Name → Option Hindrance
shared_with told written None = None
shared_with told written (Some other) = if is_one_file told written other then Some (shared written other) else None

-- the first of some files that one is that would be written
abbrev pub first_shared : Told → Name → List (Option Name) → Option Hindrance
first_shared told written [] = None
first_shared told written (other ∷ others) = or_else (shared_with told written other) (first_shared told written others)

abbrev pub shared_of : Told → Option Name → List (Option Name) → Option Hindrance
shared_of told None others = None
shared_of told (Some written) others = first_shared told written others

-- why a file can't be written: it is a folder, or it is there and can't be opened, or it isn't and can't be made. What is
-- neither file nor folder, as a pipe, is left alone.
abbrev pub write_fault : Told → Name → Option ErrorKind
write_fault told name = elim (told.kind name) [
  | None ↦ told.making name
  | Some kind ↦ elim kind [ Folder ↦ Some IsADirectory | Plain ↦ told.opening name | Other ↦ None ]
]

-- a certificate that can't be written
abbrev pub unwritable_of : Told → Option Name → Option Hindrance
unwritable_of told None = None
unwritable_of told (Some name) = option_map (unwritable name) (write_fault told name)

-- What stands in the way of a run, if anything does: the first written file that is one of those that are read, or the second
-- written one; then the second that is one of those that are read; then a certificate that can't be written.
abbrev pub hindrance : Told → Bool → Option Name → Option Name → Option Name → Option Name → Option Hindrance
hindrance told is_certificate read read_too written written_too =
    or_else (shared_of told written (read ∷ read_too ∷ written_too ∷ []))
    (or_else (shared_of told written_too (read ∷ read_too ∷ []))
    (if is_certificate then unwritable_of told written else None))
