pub mod FreshLaws
pub mod IdLaws
