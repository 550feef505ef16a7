-- What a fault is: its layer, its number and its place. Assumes nothing.
use Rattle.std.specs.Prelude.{ℕ}
use Rattle.auction.specs.Steps.{auction_question}
use Rattle.bidfile.specs.Found.{file_question}
use Rattle.curve.specs.Questions.{question}
use Rattle.listing.specs.declared.fault.Fault.{Fault}
use Rattle.listing.specs.declared.fault.Fault.TheVariants.{File, Auction}
use Rattle.listing.specs.declared.fault.Layer.{Layer}
use Rattle.listing.specs.declared.fault.Layer.TheVariants as layer
use Rattle.listing.specs.declared.fault.Unopenable.{Unopenable}
use Rattle.listing.specs.declared.fault.Unopenable.TheVariants.{Curve, Open}
use Rattle.listing.specs.declared.line.Line.{Line}
use Rattle.listing.specs.declared.line.Line.TheVariants as line

abbrev pub why_layer : Unopenable → Layer
why_layer (Curve e) = layer.Curve
why_layer (Open e) = layer.Auction

abbrev pub why_number : Unopenable → ℕ
why_number (Curve e) = question e
why_number (Open e) = auction_question e

abbrev pub fault_layer : Fault → Layer
fault_layer (File f) = layer.File
fault_layer (Auction f) = why_layer f.why

abbrev pub fault_number : Fault → ℕ
fault_number (File f) = file_question f.question
fault_number (Auction f) = why_number f.why

abbrev pub fault_place : Fault → ℕ
fault_place (File f) = f.place
fault_place (Auction f) = f.place

-- the line of a fault
abbrev pub fault_line : Fault → Line
fault_line f = line.Fault (fault_layer f) (fault_number f) (fault_place f)
