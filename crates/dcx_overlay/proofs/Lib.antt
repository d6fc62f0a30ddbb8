-- The lemmas by which lines are laid over a setting item by item, and give one list of settings.
pub mod Laid
pub mod Wholes
pub mod OneSetting
