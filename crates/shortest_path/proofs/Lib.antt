pub mod BesideLaws
pub mod BestLaws
pub mod ShortLaws
pub mod PassLaws
pub mod WalkLaws
pub mod PriceLaws
pub mod PairLaws
pub mod PairPassLaws
