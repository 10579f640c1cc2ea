-- What the contracts cite. `Texts`: parts of texts.
pub mod Texts
