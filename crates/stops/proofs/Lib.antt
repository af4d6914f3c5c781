pub mod UsedLaws
pub mod CodeStops
pub mod StopLaws
pub mod StoppingLaws
pub mod CodeTried
