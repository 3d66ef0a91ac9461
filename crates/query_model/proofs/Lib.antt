mod Examples
mod ForthExamples
