-- What rows, spans, costs and points are in an order.
pub mod Orders
