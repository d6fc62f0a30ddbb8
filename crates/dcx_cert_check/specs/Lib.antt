-- What contracts cite: the checks of a certificate, their demands and faults, and what passing them shows.
pub mod Shown
pub mod Checks
pub mod Laws
pub mod Demands
pub mod Numbers
pub mod SingleChecks
pub mod CheckLaws
