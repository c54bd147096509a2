pub mod FedParts
pub mod LastRows
pub mod Serving
pub mod MadeLines
pub mod HeardOctets
