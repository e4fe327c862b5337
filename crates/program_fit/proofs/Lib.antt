mod FitMaps
mod FitParts
mod FitReduces
pub mod Fitting
