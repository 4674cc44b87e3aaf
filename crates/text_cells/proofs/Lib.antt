mod Filling
mod Rowing
mod CharacterCounts
