-- What the contracts cite. `Before`: the row before a call.
pub mod Before
