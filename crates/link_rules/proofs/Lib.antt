mod Bytes
mod Exact
mod Tables
