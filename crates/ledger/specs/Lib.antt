-- A ledger of forty places.
pub mod Layout
