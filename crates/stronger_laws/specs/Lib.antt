-- Other crates cite WideRows, Mir, PricedCuts, AllCuts, Alike, ClassTrees, WideClaims and WideJudgement. The rest
-- is for contracts here alone.
pub mod WideRows
pub mod Mir
pub mod PricedCuts
pub mod AllCuts
pub mod Alike
pub mod ClassTrees
pub mod WideClaims
pub mod WideJudgement
pub mod Laws
