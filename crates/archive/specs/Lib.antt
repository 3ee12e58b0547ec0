pub mod Findings
pub mod Grammar
pub mod Laws
pub mod Reports
pub mod Texts
pub mod Views
