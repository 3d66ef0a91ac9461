mod Carried
mod Places
mod Standing
mod Stretches
