-- What the contracts inside `splits` cite: how the search goes. What its public function means stands in `demand`.
pub mod Ways
