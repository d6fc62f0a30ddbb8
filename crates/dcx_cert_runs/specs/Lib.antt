-- What contracts cite: the sections of certificates at settings, and how they are checked and migrated.
pub mod Sections
pub mod Checking
pub mod Migrating
pub mod Laws
