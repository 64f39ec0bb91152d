-- The law behind label_printer's proofs.
mod Back
