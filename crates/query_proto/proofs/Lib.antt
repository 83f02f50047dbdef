pub mod Numbers
pub mod Fronts
pub mod Several
pub mod Shapes
pub mod Fitting
pub mod SpelledMoves
