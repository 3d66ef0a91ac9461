mod Carrying
mod Flat
mod Marks
mod Over
mod Zeros
