pub mod LedBoards
