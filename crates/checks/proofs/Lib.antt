-- After: the verdict as that after each test in turn.
pub mod After
