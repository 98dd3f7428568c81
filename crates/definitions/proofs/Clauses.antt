-- Clauses of a contract, made of one proof of both.
pub both : {A B R : Type 0} → (A → B → R) → A × B → R
both f p = f p.0 p.1

pub three : {A B D R : Type 0} → (A → B → D → R) → A × (B × D) → R
three f p = f p.0 p.1.0 p.1.1
