pub mod RunForms
