mod Members
mod Standing
mod Keeping
mod Carried
