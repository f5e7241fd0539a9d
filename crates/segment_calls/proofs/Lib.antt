pub mod BaudLaws
pub mod CallLaws
pub mod OpenLaws
