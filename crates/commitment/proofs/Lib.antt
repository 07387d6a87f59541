pub mod Fitting
pub mod Folds
pub mod Trees
