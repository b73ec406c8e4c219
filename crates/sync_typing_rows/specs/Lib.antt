-- The rows of typing that are sound, group by group.
pub mod BeginLaws
pub mod EndLaws
pub mod GatherLaws
pub mod KeepLaws
pub mod OthersLaws
pub mod SplitLaws
pub mod RestLaws
pub mod SoundLaws
