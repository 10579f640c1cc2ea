-- `Operations`: what each operation may take for granted where nothing is refused.
pub mod Operations
