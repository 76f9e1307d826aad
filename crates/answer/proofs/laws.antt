-- no two refusals are stated alike
pub mod OneToOne
