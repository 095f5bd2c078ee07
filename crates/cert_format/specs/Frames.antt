-- What a frame says of the model and its blocks, by the numbers in texts.
use Rattle.std.specs.Prelude.{ℕ, ◌-◌, Bool, false, ◌&&◌, length, nat_lt, slice_index_or}
use Rattle.cert_format.specs.Cert as texts
use Rattle.cert_format.specs.declared.frame.Frame.{Frame}

-- whether a row is a master row
abbrev pub is_master : Frame → ℕ → Bool
is_master frame row = nat_lt 0 row && slice_index_or frame.masters (row - 1) false

-- a frame by numbers in texts
abbrev pub frame_of : Frame → texts.Frame
frame_of frame = record { variables = frame.variables; rows = length frame.masters; is_master = is_master frame; links = frame.links; blocks = frame.blocks; limits = frame.limits }
