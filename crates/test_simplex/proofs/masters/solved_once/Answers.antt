use Rattle.test_simplex.proofs.Shared.{one_column_modest_as}
use Rattle.test_simplex.proofs.masters.solved_once.Goals as goal

pub solve-requires : goal.solve-requires
solve-requires c = one_column_modest_as c.in_ok-master.master c.in_ok-master.ensures
