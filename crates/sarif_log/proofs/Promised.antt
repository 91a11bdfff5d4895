-- What the contract of piece gives a program that writes the log: each piece in turn stands first in its room. Assumes nothing.
use Prim.Native.Nat.{◌≤◌}
use native.Mathlib.Omega.{arith}
use mathlib.Core.Path.{◌≡◌}
use lib.ListN.{length, take}
use Rattle.rules.specs.Afterwards.{records_in}
use Rattle.page.proofs.Pages.{stands}
use Rattle.sarif_log.specs.Pieces.{piece_most, piece_of}
use Rattle.sarif_log.proofs.piece.Reads as contract

-- PIECE k, of the contract as the checker reads it (Post: of the arguments a, the result r and the lent bytes s afterwards)
pub piece_promised : (κs : _) (a : _) (r : _) (s : _) → contract.Post κs a r s → piece_most ≤ length a.0.now
    → let x = piece_of a.1.0.now a.1.1.1.1.1.0 (records_in a.1.1.1.1.0 a.1.1.1.0.now) a.1.1.1.1.1.1.0 in
    (r ≡ length x) × (take r s.0.now ≡ x)
piece_promised κs a r s p h =
    stands (piece_of a.1.0.now a.1.1.1.1.1.0 (records_in a.1.1.1.1.0 a.1.1.1.0.now) a.1.1.1.1.1.1.0) p h (omega arith)
