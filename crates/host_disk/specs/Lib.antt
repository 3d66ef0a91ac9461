pub mod HostErrors
