pub mod SlotsOverOneBoard
