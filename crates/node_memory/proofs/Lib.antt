pub mod EveryBlock
