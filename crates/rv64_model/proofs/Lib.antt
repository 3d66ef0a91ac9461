pub mod Examples
pub mod ValueExamples
pub mod CarriesExamples
