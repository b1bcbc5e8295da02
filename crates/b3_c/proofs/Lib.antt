pub mod Steps  -- the names that the walks cite
pub mod Pointers  -- the steps through a pointer to a hasher: one is placed there, lent from there, and given back
