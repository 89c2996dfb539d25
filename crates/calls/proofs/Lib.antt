-- Demand 3 of what the functions do: from their contracts, as the source states them, to histories; and impostors shut out.
pub mod Lists
pub mod Contracts
pub mod Mixtures
pub mod Listings
pub mod Impostors
