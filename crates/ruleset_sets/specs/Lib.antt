pub mod Roles
pub mod RoleTokens
pub mod Sieve
pub mod Inner
pub mod Items
pub mod Kept
pub mod RulesetText
