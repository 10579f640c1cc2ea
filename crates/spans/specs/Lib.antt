-- What the contracts cite. `Span`: two distances and the way between them.
pub mod Span
