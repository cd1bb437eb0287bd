-- Where the first fault of statements stands, for the crates above.
pub use Rattle.zim_plain.proofs.FaultPlaceLaws.{place_stands}
